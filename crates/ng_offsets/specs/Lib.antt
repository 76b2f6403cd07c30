pub mod Tools
pub mod Offsets
pub mod Named
pub mod Origins
