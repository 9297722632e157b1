-- The capacities of the lists of the table services. This project's own.
use Rattle.std.specs.Prelude.{ℕ, List, replicate}
use Rattle.lc_model.specs.Host.React.{max_file_size}
use Rattle.lc_model.specs.Kept.Executive.{seat_count}
use Rattle.tbl_service.specs.Store.{most_files}
use Rattle.tbl_service.specs.Places.{most_tables}
use Rattle.tbl_service.specs.declared.capacities.TableCapacities.{TableCapacities}

-- Each buffer has room for the longest file.
abbrev pub buffers : ℕ → List ℕ
buffers count = replicate count max_file_size

-- There is room for eight files and for two tables of each seat, with two images each.
abbrev pub table_capacities : TableCapacities
table_capacities = record {
  seats = seat_count;
  files = most_files;
  spare_files = most_files;
  file_buffers = buffers most_files;
  tables = most_tables;
  spare_images = most_tables;
  image_buffers = buffers 4;
}
