pub mod Bytes
pub mod Lent
pub mod Optional
pub mod SheetLists
pub mod ToolLists
pub mod Picks
