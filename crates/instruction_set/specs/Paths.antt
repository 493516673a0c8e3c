-- Which calls have paths. (own)
use Rattle.std.specs.Prelude.{Bool, true, false, ◌&&◌}
use Rattle.instruction_set.specs.Programs.{Instruction, Invoke, Syscall, is_path, Open, Openat, Fstatat, Stat, Mkdirat, Mkdir, Unlinkat, Unlink, Renameat}

-- one path, or two of them
abbrev pub has_path : Syscall → Bool
has_path (Open path flags) = true
has_path (Openat descriptor path flags) = true
has_path (Fstatat descriptor path) = true
has_path (Stat path) = true
has_path (Mkdirat descriptor path) = true
has_path (Mkdir path) = true
has_path (Unlinkat descriptor path directory) = true
has_path (Unlink path directory) = true
has_path (Renameat descriptor path target new_path) = true
has_path _ = false

-- each path that it has is one
abbrev pub has_valid_paths : Syscall → Bool
has_valid_paths (Open path flags) = is_path path
has_valid_paths (Openat descriptor path flags) = is_path path
has_valid_paths (Fstatat descriptor path) = is_path path
has_valid_paths (Stat path) = is_path path
has_valid_paths (Mkdirat descriptor path) = is_path path
has_valid_paths (Mkdir path) = is_path path
has_valid_paths (Unlinkat descriptor path directory) = is_path path
has_valid_paths (Unlink path directory) = is_path path
has_valid_paths (Renameat descriptor path target new_path) = is_path path && is_path new_path
has_valid_paths _ = true

abbrev pub calls_with_valid_paths : Instruction → Bool
calls_with_valid_paths (Invoke call otherwise) = has_valid_paths call
calls_with_valid_paths _ = true
