mod ChunkLaws
mod FigureLaws
pub mod TemplateLaws
