pub mod Names
mod Lists
mod Places
mod MemberSums
mod TensorSums
mod OrbitSums
mod Invariance
mod PlainParts
mod Quotients
mod Faults
mod Bounds
mod Fronts
mod Rules
mod Found
