pub mod RowByRow
pub mod DivideCall
