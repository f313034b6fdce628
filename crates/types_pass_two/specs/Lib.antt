pub mod PassTwo
pub mod row_refs
pub mod instr_refs
pub mod refs
