pub mod ExpressionNodes
pub mod TypeNodes
pub mod StatementNodes
pub mod BlockNodes
