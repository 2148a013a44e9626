mod Bodies
mod TwoPlaces
