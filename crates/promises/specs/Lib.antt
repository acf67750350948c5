-- Read beside document 01, and beside requests (i), (ii), (iii), (iv), (v), (x), (xi) and (xii).
pub mod DemandOne
pub mod DemandTwo
pub mod DemandThree
pub mod SameDrawing
pub mod PartNumbers
pub mod BendAngles
pub mod DepthInOrder
pub mod RowsWithoutBars
pub mod NearestBar
pub mod LabelPrinter
pub mod JoinedAlongSeam
pub mod CutAlongBend
pub mod Case
pub mod Known
