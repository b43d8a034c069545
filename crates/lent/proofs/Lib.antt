-- What the contracts say of a detail.
pub mod Added
