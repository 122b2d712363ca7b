pub mod ClaimCauses
pub mod Hurting
pub mod Amendment
pub mod Laws
