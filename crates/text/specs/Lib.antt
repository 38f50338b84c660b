pub mod Table
pub mod RangeTable
pub mod KindText
pub mod Digits
pub mod Written
pub mod Line
pub mod Whole
pub mod SheetText
