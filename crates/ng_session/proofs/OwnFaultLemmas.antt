-- A line is refused only for faults of its own: never because memory, a counter of the journal or the device fails.
use Rattle.std.proofs.Common.{◌≡◌, ℕ, zero, suc, ℤ, pos, negsuc, ◌+ℤ◌, ◌-ℤ◌, ◌*ℤ◌, Bool, true, false, ◌&&◌}
use Rattle.std.proofs.Common.{if◌then◌else◌, List, [], ◌∷◌, ◌++◌, length, Option, Some, None, Result, Ok, Err, refl}
use Rattle.std.proofs.Common.{subst}
use Rattle.std.specs.Prelude.{unsigned_abs, nat_eq, nat_le}
use Rattle.std.specs.Option.{ok_or, option_and_then}
use Rattle.std.specs.Result.{result_unwrap_or}
use Rattle.ng_params.specs.Change.{with_changes}
use Rattle.ng_num.specs.Arithmetic.{million, product, quotient_of, remainder_of}
use Rattle.ng_num.specs.Rounding.{near_by}
use Rattle.ng_num.specs.Causes.{IsFirstFault}
use Rattle.ng_num.specs.Power.{power, power_by, power_of, times, exponent_of}
use Rattle.ng_num.specs.Range.{greatest, in_range}
use Rattle.ng_num.specs.Results.{and_then}
use Rattle.ng_num.specs.Root.{root_of}
use Rattle.ng_num.specs.Whole.{fix, fup, round, whole_of}
use Rattle.ng_num.specs.declared.fault.Fault.{Fault}
use Rattle.ng_num.specs.declared.fault.Fault.TheVariants.{BadArithmetic, BadIndex, Broken, CountersUsed}
use Rattle.ng_num.specs.declared.fault.Fault.TheVariants.{DeviceFailed, LineTooLong, NoFeed, OutOfMemory}
use Rattle.ng_num.specs.declared.fault.Fault.TheVariants.{OutOfRange, OutsideTravel}
use Rattle.ng_params.specs.Numbers.{index_of}
use Rattle.ng_canon.specs.declared.geometry.Geometry.{Geometry}
use Rattle.ng_words.specs.Grammar.{is_too_long, Piece, Tree, word, assignment, comment, number, parameter, bracketed, applied, joined}
use Rattle.ng_words.specs.Start.{is_deletable}
use Rattle.ng_words.specs.declared.tree.Function.{Function}
use Rattle.ng_words.specs.declared.tree.Function.TheVariants.{Abs, Fix, Fup, Round, Sqrt}
use Rattle.ng_words.specs.declared.tree.Operation.{Operation}
use Rattle.ng_words.specs.declared.tree.Operation.TheVariants.{Power, Times, Over, Modulo, Plus, Minus, Or, Xor, And}
use Rattle.ng_expr.specs.Settle.{Settled, change, given, index}
use Rattle.ng_expr.specs.Value.{apply, join, named, parameter_value, value}
use Rattle.ng_expr.specs.declared.word.Word.{Word}
use Rattle.ng_modal.specs.BlockOfWords.{block_of}
use Rattle.ng_modal.specs.Checking.{faults}
use Rattle.ng_state.specs.State.{StateModel}
use Rattle.ng_state.specs.declared.modes.Modes.{Modes}
use Rattle.ng_layout.specs.Stored.{StoredModel}
use Rattle.ng_layout.specs.declared.half.Source.{Source}
use Rattle.ng_layout.specs.declared.half.Source.TheVariants.{Program, Mdi}
use Rattle.ng_text.specs.Programs.{lines_before}
use Rattle.ng_session.specs.Entries.{done_of, done_again, terms_of}
use Rattle.ng_block.specs.Asked.{written_on, pieces_in, values_of, move_on, Move, Stays, Goes, Turns, GoesHome, Drills}
use Rattle.ng_block.specs.Causes.{arc_faults, causes, computes_beyond, cycle_faults, goes_outside, has_no_feed, value_cause, value_causes}
use Rattle.ng_block.specs.Effects.{Done, executed}
use Rattle.ng_block.specs.Program.{TermsModel, deleted, executed_unless_deleted, framed, percent_at}
use Rattle.ng_block.specs.declared.effect.ProgramFlow.{ProgramFlow}
use Rattle.ng_block.proofs.CauseLemmas.{first_of}

-- neither out of memory, nor a counter, nor a device that fails or has failed
abbrev pub is_own : Fault → Bool
is_own DeviceFailed = false
is_own CountersUsed = false
is_own OutOfMemory = false
is_own Broken = false
is_own _ = true

-- if a result is a fault, it is the line's own
abbrev pub RefusesOwn : {X : Type 0} → Result X Fault → Type 0
RefusesOwn (Ok x) = Unit {0}
RefusesOwn (Err fault) = is_own fault ≡ true

-- the faults of a list, each with its cause, are all the line's own
abbrev AreOwn : List (Bool × Fault) → Type 0
AreOwn [] = Unit {0}
AreOwn (f ∷ fs) = (is_own f.1 ≡ true) × AreOwn fs

are_both : (fs gs : List (Bool × Fault)) → AreOwn fs → AreOwn gs → AreOwn (fs ++ gs)
are_both [] gs own more = more
are_both (f ∷ fs) gs own more = (own.0, are_both fs gs own.1 more)

are_later : (fs gs : List (Bool × Fault)) → AreOwn (fs ++ gs) → AreOwn gs
are_later [] gs own = own
are_later (f ∷ fs) gs own = are_later fs gs own.1

is_first : (fs : List (Bool × Fault)) (fault : Fault) → AreOwn fs → IsFirstFault fs fault → is_own fault ≡ true
is_first fs fault own first = (are_later first.0 ((true, fault) ∷ first.1) (subst AreOwn first.2 own)).0

-- ---- the value of a tree

own_then : {X Y : Type 0} (r : Result X Fault) (f : X → Result Y Fault) → RefusesOwn r → ((x : X) → RefusesOwn (f x)) → RefusesOwn (and_then r f)
own_then (Ok x) f own later = later x
own_then (Err fault) f own later = own

own_if : {X : Type 0} (b : Bool) (r s : Result X Fault) → RefusesOwn r → RefusesOwn s → RefusesOwn (if b then r else s)
own_if true r s one other = one
own_if false r s one other = other

own_or : {X : Type 0} (o : Option X) (fault : Fault) → is_own fault ≡ true → RefusesOwn (ok_or o fault)
own_or None fault own = own
own_or (Some x) fault own = tt

own_in_range : (z : ℤ) → RefusesOwn (in_range z)
own_in_range z = own_if (nat_le (unsigned_abs z) greatest) (Ok z) (Err OutOfRange) tt refl

own_times : (x : ℤ) (r : Result ℤ Fault) → RefusesOwn r → RefusesOwn (times x r)
own_times x (Ok p) own = own_in_range (product p x)
own_times x (Err fault) own = own

own_powers : (x : ℤ) (n : ℕ) → RefusesOwn (power x n)
unfolding power
own_powers x zero = tt
own_powers x (suc n) = own_times x (power x n) (own_powers x n)

own_power_by : (x : ℤ) (o : Option ℕ) → RefusesOwn (power_by x o)
own_power_by x None = refl
own_power_by x (Some n) = own_powers x n

own_power : (x y : ℤ) → RefusesOwn (power_of x y)
unfolding power_of
own_power x y = own_power_by x (exponent_of (whole_of y))

own_root : (z : ℤ) → RefusesOwn (root_of z)
unfolding root_of
own_root (pos n) = tt
own_root (negsuc n) = refl

own_quotient : (a b : ℤ) → RefusesOwn (quotient_of a b)
unfolding quotient_of
own_quotient a b = own_if (nat_eq (unsigned_abs b) 0) (Err BadArithmetic) (in_range (near_by (a *ℤ million) b)) refl (own_in_range (near_by (a *ℤ million) b))

own_remainder : (a b : ℤ) → RefusesOwn (remainder_of a b)
unfolding remainder_of
own_remainder a b = own_if (nat_eq (unsigned_abs b) 0) (Err BadArithmetic) _ refl tt

own_apply : (f : Function) (z : ℤ) → RefusesOwn (apply f z)
own_apply Abs z = tt
own_apply Fix z = own_in_range (fix z)
own_apply Fup z = own_in_range (fup z)
own_apply Round z = own_in_range (round z)
own_apply Sqrt z = own_root z

own_join : (op : Operation) (a b : ℤ) → RefusesOwn (join op a b)
own_join Power a b = own_power a b
own_join Times a b = own_in_range (product a b)
own_join Over a b = own_quotient a b
own_join Modulo a b = own_remainder a b
own_join Plus a b = own_in_range (a +ℤ b)
own_join Minus a b = own_in_range (a -ℤ b)
own_join Or a b = tt
own_join Xor a b = tt
own_join And a b = tt

own_named : (z : ℤ) → RefusesOwn (named z)
own_named z = own_or (option_and_then index_of (whole_of z)) BadIndex refl

own_parameter : (table : List ℤ) (z : ℤ) → RefusesOwn (parameter_value table z)
own_parameter table z = own_then (named z) _ (own_named z) (λ p. tt)

own_value : (t : Tree) (table : List ℤ) → RefusesOwn (value t table)
own_value (number z) table = own_or z OutOfRange refl
own_value (parameter t) table = own_then (value t table) (parameter_value table) (own_value t table) (λ z. own_parameter table z)
own_value (bracketed t) table = own_value t table
own_value (applied f t) table = own_then (value t table) (apply f) (own_value t table) (λ z. own_apply f z)
own_value (joined op l r) table =
    own_then (value l table) (λ a. and_then (value r table) (λ b. join op a b)) (own_value l table)
    (λ a. own_then (value r table) (λ b. join op a b) (own_value r table) (λ b. own_join op a b))

own_index : (table : List ℤ) (t : Tree) → RefusesOwn (index table t)
own_index table t = own_then (value t table) named (own_value t table) own_named

own_given : (table : List ℤ) (p : Piece) → RefusesOwn (given table p)
own_given table (word l t) = own_then (value t table) _ (own_value t table) (λ z. tt)
own_given table (assignment i v) =
    own_then (change table i v) _ (own_then (index table i) _ (own_index table i) (λ p. own_then (value v table) _ (own_value v table) (λ z. tt))) (λ c. tt)
own_given table (comment text) = tt

are_value_causes : (r : Result Settled Fault) → RefusesOwn r → AreOwn (value_cause r)
are_value_causes (Ok settled) own = tt
are_value_causes (Err fault) own = (own, tt)

are_values : (pieces : List Piece) (table : List ℤ) → AreOwn (value_causes pieces table)
are_values [] table = tt
are_values (p ∷ pieces) table = are_both (value_cause (given table p)) (value_causes pieces table)
    (are_value_causes (given table p) (own_given table p)) (are_values pieces table)

-- ---- a line

are_of_arc : (m : Move) → AreOwn (arc_faults m)
are_of_arc Stays = tt
are_of_arc (Goes pace end) = tt
are_of_arc (Turns pace asked) = (refl, (refl, (refl, (refl, tt))))
are_of_arc (GoesHome between home) = tt
are_of_arc (Drills w s) = tt

are_of_cycle : (m : Move) → AreOwn (cycle_faults m)
are_of_cycle Stays = tt
are_of_cycle (Goes pace end) = tt
are_of_cycle (Turns pace asked) = tt
are_of_cycle (GoesHome between home) = tt
are_of_cycle (Drills w s) = (refl, (refl, (refl, (refl, (refl, (refl, (refl, (refl, tt))))))))

are_of_words : (ws : List Word) (m : Modes) (slots : ℕ) → AreOwn (faults ws m slots)
are_of_words ws m slots = (
  refl,
  (
    refl,
    (
      refl,
      (
        refl,
        (
          refl,
          (
            refl,
            (
              refl,
              (
                refl,
                (refl, (refl, (refl, (refl, (refl, (refl, (refl, (refl, (refl, (refl, (refl, tt))))))))))),
              ),
            ),
          ),
        ),
      ),
    ),
  ),
)

are_in_order : (values words arc cycle end : List (Bool × Fault)) (far : Bool) → AreOwn values → AreOwn words → AreOwn arc → AreOwn cycle → AreOwn end
    → AreOwn (values ++ (words ++ ((far, OutOfRange) ∷ (arc ++ (cycle ++ end)))))
are_in_order values words arc cycle end far v w a c e =
    let computed : AreOwn ((far, OutOfRange) ∷ (arc ++ (cycle ++ end))) = (refl, are_both arc (cycle ++ end) a (are_both cycle end c e)) in
    are_both values (words ++ ((far, OutOfRange) ∷ (arc ++ (cycle ++ end)))) v (are_both words ((far, OutOfRange) ∷ (arc ++ (cycle ++ end))) w computed)

own_causes : (s : StateModel) (tools : List ℤ) (geometry : Geometry) (text : List ℕ) → AreOwn (causes s tools geometry text)
unfolding causes
own_causes s tools geometry text =
    let pieces = pieces_in (written_on text) in
    let values = values_of pieces s.params in
    let b = block_of values.words s.modal.modes in
    let table = with_changes s.params values.assignments in
    let move = result_unwrap_or (move_on b s.modal table tools) Stays in
    let end : AreOwn ((has_no_feed move, NoFeed) ∷ ((goes_outside move geometry, OutsideTravel) ∷ [])) = (refl, (refl, tt)) in (
      refl,
      (
        refl,
        are_in_order (value_causes pieces s.params) (faults values.words s.modal.modes (length tools)) (arc_faults move) (cycle_faults move)
            ((has_no_feed move, NoFeed) ∷ ((goes_outside move geometry, OutsideTravel) ∷ [])) (computes_beyond b s.modal table tools)
            (are_values pieces s.params) (are_of_words values.words s.modal.modes (length tools)) (are_of_arc move) (are_of_cycle move) end,
      ),
    )

own_executed : (s : StateModel) (tools : List ℤ) (geometry : Geometry) (text : List ℕ) (r : Result Done Fault)
    → executed s tools geometry text ≡ r → RefusesOwn r
own_executed s tools geometry text (Ok done) is = tt
own_executed s tools geometry text (Err fault) is = is_first (causes s tools geometry text) fault
    (own_causes s tools geometry text) (first_of s tools geometry text fault is)

own_line : (s : StateModel) (tools : List ℤ) (geometry : Geometry) (text : List ℕ) → RefusesOwn (executed s tools geometry text)
own_line s tools geometry text = own_executed s tools geometry text (executed s tools geometry text) refl

own_deleted : (s : StateModel) (line : List ℕ) → RefusesOwn (deleted s line)
own_deleted s line = own_if (is_too_long line) (Err LineTooLong) _ refl tt

own_unless_deleted : (terms : TermsModel) (s : StateModel) (line : List ℕ) → RefusesOwn (executed_unless_deleted terms s line)
own_unless_deleted terms s line =
    own_if (terms.block_delete && is_deletable line) (deleted s line) (executed s terms.tools terms.geometry line)
    (own_deleted s line) (own_line s terms.tools terms.geometry line)

own_framed : (flow : Option ProgramFlow) (s : StateModel) (r : Result Done Fault) → RefusesOwn r → RefusesOwn (framed flow s r)
own_framed None s r own = own
own_framed (Some flow) s r own = tt

-- a line of a program, a line of the operator, and a half-done block
pub own_done : (geometry : Geometry) (program : List ℕ) (x : StoredModel) (source : Source) (text : List ℕ)
    (block_delete : Bool) → RefusesOwn (done_of geometry program x source text block_delete)
unfolding done_of
own_done geometry program x Program text block_delete =
    own_framed (percent_at (lines_before program x.place) text) x.setup
    (executed_unless_deleted (terms_of geometry x.tools block_delete) x.setup text)
    (own_unless_deleted (terms_of geometry x.tools block_delete) x.setup text)
own_done geometry program x Mdi text block_delete = own_unless_deleted (terms_of geometry x.tools block_delete) x.setup text

pub own_again : (geometry : Geometry) (x : StoredModel) (text : List ℕ) → RefusesOwn (done_again geometry x text)
unfolding done_again
own_again geometry x text = own_line x.setup x.tools geometry text
