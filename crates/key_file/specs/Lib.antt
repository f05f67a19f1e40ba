pub mod KeyFile
