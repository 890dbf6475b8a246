-- What the contracts of `asks` say.
-- Standing: what tells whether register would accept the asks that stand.
pub mod Standing
