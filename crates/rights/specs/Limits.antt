-- How much there may be of each thing. (own, but for names and paths: open(2), ENAMETOOLONG; links: open(2), ELOOP)
use Rattle.std.specs.Prelude.{ℕ}

-- nodes made in a tree, its root and removed ones counted; bytes of a file
abbrev pub most_nodes : ℕ
most_nodes = 1024

abbrev pub most_bytes : ℕ
most_bytes = 4096

-- bytes of a node's name, of a path or a link's target, and links followed by one lookup
abbrev pub most_name : ℕ
most_name = 255

abbrev pub most_path : ℕ
most_path = 1023

abbrev pub most_links : ℕ
most_links = 32

-- processes made in a run, those that have ended counted; descriptors of one process
abbrev pub most_processes : ℕ
most_processes = 16

abbrev pub most_descriptors : ℕ
most_descriptors = 16

-- registers of a process, always so many
abbrev pub register_count : ℕ
register_count = 8

-- messages of one queue
abbrev pub most_messages : ℕ
most_messages = 16

-- instructions of a program; bytes of a program's or grant's name; programs and grants of a task
abbrev pub most_instructions : ℕ
most_instructions = 256

abbrev pub most_word : ℕ
most_word = 16

abbrev pub most_programs : ℕ
most_programs = 8

abbrev pub most_grants : ℕ
most_grants = 8

-- socket pairs that a task starts with
abbrev pub most_pairs : ℕ
most_pairs = 32

-- events of a schedule's text
abbrev pub most_events : ℕ
most_events = 65536
