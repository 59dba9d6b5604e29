-- What the contracts of `columns` cite: the promises of `reader_class` and of `kept_columns`. Inner is what the inner functions need and give.
pub mod Reader
pub mod Columns
pub mod Inner
