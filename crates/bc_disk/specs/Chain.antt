-- How many records and sets there are. A set fills a bucket: 40 bytes, and then 3 for each record.
use Rattle.std.specs.Prelude.{ℕ, ◌+◌, ◌-◌, ◌*◌, ◌/◌}
use Rattle.bc_disk.specs.declared.geometry.Geometry.{Geometry}

abbrev pub bucket_bytes : Geometry → ℕ
bucket_bytes g = 512 * g.bucket

-- how many records fit into a set
unfoldable pub records_in_set : Geometry → ℕ
records_in_set g = (bucket_bytes g - 40) / 3

-- how many sets it takes to hold a record of each bucket
unfoldable pub sets_in_chain : Geometry → ℕ
sets_in_chain g = (g.nbuckets + (records_in_set g - 1)) / records_in_set g
