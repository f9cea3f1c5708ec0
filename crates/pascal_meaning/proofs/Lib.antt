pub mod Bounds
pub mod Examples
pub mod ExpressionViews
pub mod StatementViews
pub mod Steps
pub mod Trees
pub mod Unseen
