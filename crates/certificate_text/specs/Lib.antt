pub mod Grammar
pub mod CertificateRules
pub mod Reading
pub mod Beginnings
pub mod Laws
pub mod Books
pub mod Certificates
