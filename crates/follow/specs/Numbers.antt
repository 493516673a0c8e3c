-- Numbers of a record, and those of a task that stand for them. (own)
use Rattle.std.specs.Prelude.{◌+◌, ◌==◌, ◌&&◌, not, ℕ, Bool, true, false, List, [], ◌∷◌, ◌++◌, map, Option, Some, None, if◌then◌else◌}
use Rattle.std.specs.List.{filter, list_all, list_any}
use Rattle.rights.specs.Values.{ProcessNumber, DescriptorNumber}
use Rattle.task.specs.Plans.{FirstDescriptor, Start}

-- ## Processes
-- a process of the record, and the one of the task that stands for it
pub record ProcessPair : Type 0 where
  pub real : ℕ
  pub model : ProcessNumber

-- the process that stands for one of the record
abbrev pub model_of : List ProcessPair → ℕ → Option ProcessNumber
model_of [] real = None
model_of (pair ∷ pairs) real = if pair.real == real then Some pair.model else model_of pairs real

abbrev pub is_number : Option ℕ → ℕ → Bool
is_number None m = false
is_number (Some n) m = n == m

-- whether it stands for any
abbrev pub is_recorded : List ProcessPair → ProcessNumber → Bool
is_recorded pairs model = list_any (λ (pair : ProcessPair). pair.model == model) pairs

-- two pairs have neither process in common
abbrev pub are_apart : ProcessPair → ProcessPair → Bool
are_apart pair other = not (pair.real == other.real) && not (pair.model == other.model)

-- no process stands for two, and none has two that stand for it
abbrev pub is_injection : List ProcessPair → Bool
is_injection [] = true
is_injection (pair ∷ pairs) = list_all (are_apart pair) pairs && is_injection pairs

-- ## Descriptors
-- From here on this number of a process of the task stands for a number of the recorded process, or none does.
pub record FdMapping : Type 0 where
  pub process : ProcessNumber
  pub real : ℕ
  pub model : Option DescriptorNumber

abbrev pub mapping : ProcessNumber → ℕ → Option DescriptorNumber → FdMapping
mapping p real model = record { process = p; real = real; model = model }

abbrev pub is_of : ProcessNumber → ℕ → FdMapping → Bool
is_of p real n = (n.process == p) && (n.real == real)

-- what stands for a number: the last mapping of it says so
abbrev pub named_from : Option DescriptorNumber → List FdMapping → ProcessNumber → ℕ → Option DescriptorNumber
named_from before [] p real = before
named_from before (n ∷ mappings) p real = named_from (if is_of p real n then n.model else before) mappings p real

abbrev pub named : List FdMapping → ProcessNumber → ℕ → Option DescriptorNumber
named mappings p real = named_from None mappings p real

-- At the start the descriptors of the task's processes stand for those of the same numbers.
abbrev pub given_mappings : ProcessNumber → List FirstDescriptor → List FdMapping
given_mappings p descriptors = map (λ (d : FirstDescriptor). mapping p d.number (Some d.number)) descriptors

abbrev pub first_mappings : ProcessNumber → List Start → List FdMapping
first_mappings p [] = []
first_mappings p (s ∷ starts) = given_mappings p s.descriptors ++ first_mappings (p + 1) starts

-- a child has the numbers of its parent
abbrev pub of_child : ProcessNumber → FdMapping → FdMapping
of_child child n = record n { process = child }

abbrev pub child_mappings : List FdMapping → ProcessNumber → ProcessNumber → List FdMapping
child_mappings mappings parent child = map (of_child child) (filter (λ (n : FdMapping). n.process == parent) mappings)
