-- What check answers to the record that make or pipe made, where no read fails and the line can be printed.
use Rattle.std.specs.Prelude.{◌≡◌, ◌≢◌, ◌⊎◌, ℕ, Option, Some}
use Rattle.rv_commands.specs.CommandLine.{CheckWords, CommandWords, MakeWords, make, pipe, check}

-- check is asked of the files of make, whose record is none of the other two
abbrev pub IsCheckOfFiles : CheckWords → MakeWords → Type 0
IsCheckOfFiles c m = (c.elf ≡ m.elf) × (c.input ≡ m.input) × (c.file ≡ m.target) × (m.target ≢ m.elf) × (m.target ≢ m.input)

abbrev pub IsCheckOf : Option CommandWords → Option CommandWords → Type 0
IsCheckOf (Some (check c)) (Some (make m)) = IsCheckOfFiles c m
IsCheckOf (Some (check c)) (Some (pipe p)) = IsCheckOfFiles c p.make
IsCheckOf _ _ = ⊥

-- The law: where make or pipe ended with 0, a check of its files, by any number of workers, accepts, or there is no memory.
abbrev pub MadeIsAccepted : Option CommandWords → Option CommandWords → ℕ → ℕ → Type 0
MadeIsAccepted asked checked made answer = IsCheckOf checked asked → made ≡ 0 → (answer ≡ 0) ⊎ (answer ≡ 7)
