-- Laws of a document, one file a notion.
pub mod Fields
pub mod Found
pub mod Amounts
