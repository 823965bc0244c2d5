mod Appending
mod Computed
