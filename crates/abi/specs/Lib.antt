-- What the contracts of `abi` say: the functions of `day` on numbers and bytes.
-- Packing: an outcome as one number, and the three numbers that it says.
pub mod Packing
-- Fields: a request in 34 bytes, and the record that they are written as.
pub mod Fields
-- Lending: readings put into a lent buffer.
pub mod Lending
