pub mod KeyPlaces
pub mod Ages
