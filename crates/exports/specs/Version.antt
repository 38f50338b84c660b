-- Which build of the exported calls this is. Whatever changes an exported name, number or length raises it.
use Rattle.std.specs.Prelude.{ℕ, ◌+◌, ◌*◌}

-- a version of three parts as one number; the last two parts are below 256
abbrev pub version_number : ℕ → ℕ → ℕ → ℕ
version_number major minor patch = major * 65536 + minor * 256 + patch

-- 3.1.0
abbrev pub version : ℕ
version = version_number 3 1 0
