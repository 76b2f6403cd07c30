pub mod TextAppendLemmas
pub mod PlanePointLemmas
pub mod QuadrantLemmas
