-- What the code's values stand for, where texts are lent.
use Rattle.std.specs.Prelude.{◌≡◌, ◌+◌, ◌++◌, ℕ, List, [], Option, Some, None, Result, Ok, Err}
use Rattle.std.specs.Borrow.{Bor}
use Rattle.bpf_isa.specs.declared.register.Register.{Register}
use Rattle.bpf_asm.specs.declared.reading.numeral.Numeral.{Numeral as CodeNumeral}
use Rattle.bpf_asm.specs.declared.reading.argument.Argument.{Argument as CodeArgument}
use Rattle.bpf_asm.specs.declared.reading.argument.Argument.TheVariants as argument_forms
use Rattle.bpf_asm.specs.declared.reading.statement_arguments.Arguments.{Arguments as CodeArguments}
use Rattle.bpf_asm.specs.declared.reading.statement_arguments.Arguments.TheVariants as argument_counts
use Rattle.bpf_asm.specs.declared.errors.TextCause.{TextCause}
use Rattle.bpf_asm.specs.declared.reading.item.Item.{Item as CodeItem}
use Rattle.bpf_asm.specs.declared.reading.item.Item.TheVariants as items
use Rattle.bpf_asm.specs.Assembly.{place, units, item_bytes, item_units}
use Rattle.bpf_asm.specs.Statements.{Item, Blank, Labelled, Plain, Goes}
use Rattle.bpf_asm.specs.Lexing.{parts, Numeral, Argument, Held, Counted, Addressed, Named, Arguments, Zero, One, Two, Three, More}

abbrev pub said_numeral : CodeNumeral → Numeral
said_numeral n = record { negative = n.negative; base = n.base; digits = n.digits.now }

abbrev pub said_argument : CodeArgument → Argument
said_argument (argument_forms.Register r) = Held r
said_argument (argument_forms.Number n) = Counted (said_numeral n)
said_argument (argument_forms.Memory base offset) = Addressed base (said_numeral offset)
said_argument (argument_forms.Name text) = Named text.now

abbrev pub said_arguments : CodeArguments → Arguments
said_arguments argument_counts.Zero = Zero
said_arguments (argument_counts.One a) = One (said_argument a)
said_arguments (argument_counts.Two a b) = Two (said_argument a) (said_argument b)
said_arguments (argument_counts.Three a b c) = Three (said_argument a) (said_argument b) (said_argument c)
said_arguments argument_counts.More = More

abbrev pub said_place : Register × CodeNumeral → Register × Numeral
said_place (base, offset) = (base, said_numeral offset)

-- the parts after the first separator, if there is one
abbrev pub parts_behind : ℕ → Option (Bor (List ℕ)) → List (List ℕ)
parts_behind separator None = []
parts_behind separator (Some rest) = parts separator rest.now

abbrev pub said_item : CodeItem → Item
said_item items.Blank = Blank
said_item (items.Label name) = Labelled name.now
said_item (items.Plain i) = Plain i
said_item (items.Goes jumping name) = Goes jumping name.now

abbrev pub said_line : Result CodeItem TextCause → Result Item TextCause
said_line (Ok item) = Ok (said_item item)
said_line (Err e) = Err e

-- so many units, and these places of labels, are those of some lines
pub record IsRead (before : List Item) (n : ℕ) (places : List ℕ → Option ℕ) : Type 0 where
  pub total : n ≡ units before
  pub found : (name : List ℕ) → places name ≡ place name before

-- the code of a line at a pc is written after other code, and ends before this next unit
pub record IsWritten (all : List Item) (pc : ℕ) (i : Item) (old new : List ℕ) (next : ℕ) : Type 0 where
  pub bytes : List ℕ
  pub spelled : item_bytes all pc i ≡ Ok bytes
  pub written : new ≡ old ++ bytes
  pub ends : next ≡ pc + item_units i
