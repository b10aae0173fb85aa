mod Printing
mod Comparing
mod Cutting
mod Sources
