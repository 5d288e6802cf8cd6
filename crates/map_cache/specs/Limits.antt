-- The limits of a cache.
pub use Rattle.mapping_records.specs.Limits.{default_minutes, most_locators, most_mappings}
