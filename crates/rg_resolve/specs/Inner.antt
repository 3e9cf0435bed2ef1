-- What only contracts of private functions, ghost fields and proofs speak of: no public contract reaches it.
pub mod ProgramTrees
pub mod FormulaTrees
pub mod SettingTrees
pub mod LineTrees
