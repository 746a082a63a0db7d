pub mod MinimalPolynomials
pub mod Laws
