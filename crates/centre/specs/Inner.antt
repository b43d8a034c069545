-- Why a struct may keep the premise of every call: no definition.
pub mod Premise
