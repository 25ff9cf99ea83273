-- The numbers of the faults, in the order in which they are told.
use Rattle.std.specs.Prelude.{◌≡◌, ℕ, false, List, take}
use Rattle.std.specs.List.{AllByRecursion}
use Rattle.rv_spec.specs.Elf.{fault_tests}
use Rattle.rv_elf.specs.declared.fault.ElfFault.{ElfFault}
use Rattle.rv_elf.specs.declared.fault.ElfFault.TheVariants.{Short, Magic, Class, Order, Version, Kind, Machine, HeaderSize, Headers, Interpreter, SegmentFile, SegmentSize, SegmentWrap, TooMany, Overlap, Entry}

abbrev pub number_of : ElfFault → ℕ
number_of Short = 1
number_of Magic = 2
number_of Class = 3
number_of Order = 4
number_of Version = 5
number_of Kind = 6
number_of Machine = 7
number_of HeaderSize = 8
number_of Headers = 9
number_of Interpreter = 10
number_of SegmentFile = 11
number_of SegmentSize = 12
number_of SegmentWrap = 13
number_of TooMany = 14
number_of Overlap = 15
number_of Entry = 16

-- a file has none of the first n faults
unfoldable pub IsClear : ℕ → List ℕ → Type 0
IsClear n file = AllByRecursion (λ b. b ≡ false) (take n (fault_tests file))
