pub mod Numbers
pub mod PlaceTexts
pub mod ReadBack
pub mod ReadsDeclaration
pub mod ReadsExpr
pub mod ReadsStatement
pub mod ReadsToken
pub mod ReadsType
