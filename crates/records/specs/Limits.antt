-- THE PAPER'S LIMITS, each once. Assumes nothing.
use Rattle.std.specs.Prelude.{ℕ}

-- records of a sheet, indices of a map, vertices of a surface
abbrev pub most_records : ℕ
most_records = 1048576

-- a vertex number
abbrev pub most_vertex : ℕ
most_vertex = 1048575

-- a length of a volume
abbrev pub most_length : ℕ
most_length = 65536

-- a voxel number
abbrev pub most_voxel : ℕ
most_voxel = 65535
