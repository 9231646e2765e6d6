pub mod Behaviour
pub mod Figures
pub mod InSheet
pub mod Service
pub mod SheetFigure
pub mod Stored
pub mod Tree
