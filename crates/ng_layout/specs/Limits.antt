-- The limits of what is stored, and the sizes of what is in a sector (own).
use Rattle.std.specs.Prelude.{ℕ}

-- the greatest epoch and the greatest entry count
abbrev pub greatest_count : ℕ
greatest_count = 1_000_000_000_000

-- the most bytes of a program, on a large device
abbrev pub longest_program : ℕ
longest_program = 1_048_576

-- the greatest number of a slot
abbrev pub greatest_slot : ℕ
greatest_slot = 128

-- how many tool lengths a sector holds
abbrev pub sector_lengths : ℕ
sector_lengths = 64

-- the byte of a snapshot's first sector at which the number of slots is stored
abbrev pub slots_at : ℕ
slots_at = 456

-- the byte of a record's first part at which the slot that changes is stored, and its length after it
abbrev pub slot_at : ℕ
slot_at = 488

abbrev pub slot_length_at : ℕ
slot_length_at = 496

-- the most bytes of a half-done block's text
abbrev pub longest_text : ℕ
longest_text = 256

-- how many bytes a state field has
abbrev pub field_size : ℕ
field_size = 456

-- how many bytes a sector has
abbrev pub sector_size : ℕ
sector_size = 512

-- how many parameters a sector of a snapshot holds
abbrev pub sector_values : ℕ
sector_values = 64

-- how many bytes of a part its label takes
abbrev pub label_size : ℕ
label_size = 22

-- the byte of a part at which its content begins, and how many bytes the content has
abbrev pub content_first : ℕ
content_first = 32

abbrev pub content_size : ℕ
content_size = 480

-- how many bytes a change takes in a part
abbrev pub change_size : ℕ
change_size = 10

-- the most changes of a part
abbrev pub part_changes : ℕ
part_changes = 48

-- the most changes of a record, whose label has two bytes for their number, and the most parts
abbrev pub record_changes : ℕ
record_changes = 65_535

abbrev pub record_parts : ℕ
record_parts = 1367
