pub mod RunningLemmas
