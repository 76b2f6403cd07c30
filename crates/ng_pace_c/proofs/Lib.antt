pub mod ExportLemmas
