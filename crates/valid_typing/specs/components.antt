pub mod Components
