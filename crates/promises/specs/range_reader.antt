pub mod BothKinds
