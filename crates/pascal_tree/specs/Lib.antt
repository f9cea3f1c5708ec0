pub mod Height
pub mod ExpressionHeights
pub mod TypeHeights
pub mod StatementHeights
pub mod BlockHeights
