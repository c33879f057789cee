mod Cuts
mod Values
