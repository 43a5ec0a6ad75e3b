pub mod Keys
pub mod Colours
pub mod Spelled
pub mod KeyLists
