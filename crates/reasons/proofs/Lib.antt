mod Cuts
mod Known
mod LeavingFacts
