-- The parameters that an engine takes.
use Rattle.std.specs.Prelude.{◌-◌, ◌^◌, ◌≤◌, IfSome}
use Rattle.amq_model.specs.declared.config.Config.{Config}

-- each parameter is in the range that an engine takes
pub record IsConfig (config : Config) : Type 0 where
  pub file_size_least : 64 ≤ config.file_size
  pub file_size_most : config.file_size ≤ 268435456
  pub buffer_size_least : 64 ≤ config.buffer_size
  pub buffer_size_most : config.buffer_size ≤ 1048576
  pub user_version : config.user_version ≤ 2 ^ 31 - 1
  pub min_files_least : 2 ≤ config.min_files
  pub min_files_most : config.min_files ≤ 1000
  pub pool_files : IfSome config.pool_files (λ n. n ≤ 1000)
  pub compact_min_files : config.compact_min_files ≤ 1000
  pub compact_percentage : config.compact_percentage ≤ 100
  pub buffer_timeout : config.buffer_timeout ≤ 1000000
