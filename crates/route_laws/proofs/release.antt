-- The leader's hand is emptied: each call in it is routed and each parcel comes to its end, until nothing is left.
pub mod Parcels
pub mod RoutedParcels
pub mod EndedParcels
pub mod Rounds
pub mod TakenUp
pub mod Home
pub mod GivenBack
pub mod Awaited
pub mod SamePlaces
pub mod GiveBacks
