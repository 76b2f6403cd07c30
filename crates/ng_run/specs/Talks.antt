-- What a text asks, and how it is answered, order by order (own).
use Rattle.std.specs.Prelude.{◌≡◌, ◌≤◌, ◌⊎◌, ℕ, false, List, [], ◌∷◌, ◌++◌, Option, None, Some, length, map, take, flat_map}
use Rattle.std.specs.List.{AllPass}
use Rattle.ng_commands.specs.Replies.{continues_ticks, refused_line, reply_line, tick_line, ticks_line}
use Rattle.ng_session.specs.declared.event.Event.{Event}
use Rattle.ng_session.specs.declared.event.Event.TheVariants as event
use Rattle.ng_session.specs.declared.reply.Reply.{Reply}
use Rattle.ng_dialogue.specs.Hearing.{BeginsWithOrder}
use Rattle.ng_dialogue.specs.declared.order.Order.{Order}
use Rattle.ng_dialogue.specs.declared.order.Order.TheVariants.{Give, Ticks, Refuse}

-- the controller is given one event, or a tick for each reply, or nothing
abbrev pub events_of : {A : Type 0} → Order A → List Reply → List (Event A)
events_of (Give event) replies = event ∷ []
events_of (Ticks n) replies = map (λ r. event.Tick) replies
events_of (Refuse fault) replies = []

-- the last line of an answer: the line of its reply; after ticks, how many were made; or why nothing was given
abbrev pub last_line : {A : Type 0} → Order A → List Reply → List ℕ
last_line (Give event) replies = flat_map reply_line replies
last_line (Ticks n) replies = ticks_line (length replies)
last_line (Refuse fault) replies = refused_line fault

-- the lines before it: for ticks, the lines of the replies
abbrev pub earlier_lines : {A : Type 0} → Order A → List Reply → List ℕ
earlier_lines (Give event) replies = []
earlier_lines (Ticks n) replies = flat_map tick_line replies
earlier_lines (Refuse fault) replies = []

-- the text of an answer
abbrev pub words_of : {A : Type 0} → Order A → List Reply → List ℕ
words_of order replies = earlier_lines order replies ++ last_line order replies

-- the replies to at most n ticks: after each but the last, the ticks continue
abbrev pub GoOnTo : ℕ → List Reply → List Reply → Reply → Type 0
GoOnTo n replies before last = (replies ≡ before ++ last ∷ []) × AllPass continues_ticks before × (length replies ≤ n)

-- the replies to n ticks, all of which continue, or to at most n, of which the last ends them
abbrev pub AreTicks : ℕ → List Reply → Type 0
AreTicks n replies =
    (AllPass continues_ticks replies × (length replies ≡ n))
    ⊎ ((before : List Reply) × (last : Reply) × GoOnTo n replies before last × (continues_ticks last ≡ false))

-- the replies to an order
abbrev pub AreReplies : {A : Type 0} → Order A → List Reply → Type 0
AreReplies (Give event) replies = length replies ≡ 1
AreReplies (Ticks n) replies = AreTicks n replies
AreReplies (Refuse fault) replies = replies ≡ []

-- an order with its replies
pub record Exchange (A : Type 0) : Type 0 where
  pub order : Order A
  pub replies : List Reply

abbrev pub IsAnswered : {A : Type 0} → Exchange A → Type 0
IsAnswered x = AreReplies x.order x.replies

-- these lines are written, and a beginning of the line after them
abbrev pub EndsIn : List ℕ → List ℕ → List ℕ → Type 0
EndsIn lines line written = (n : ℕ) × (written ≡ lines ++ take n line)

-- Ticks are broken off in the line of the last reply: the lines before it are whole.
abbrev pub AreBrokenOff : ℕ → List Reply → List ℕ → Type 0
AreBrokenOff n replies written =
    (before : List Reply) × (last : Reply) × GoOnTo n replies before last × EndsIn (flat_map tick_line before) (tick_line last) written

-- An answer is broken off after this much of it: it came up to its last line, or its ticks are broken off.
abbrev pub IsBegun : {A : Type 0} → Exchange A → List ℕ → Type 0
IsBegun x written =
    (IsAnswered x × EndsIn (earlier_lines x.order x.replies) (last_line x.order x.replies) written)
    ⊎ ((n : ℕ) × (x.order ≡ Ticks n) × AreBrokenOff n x.replies written)

abbrev pub events_in : {A : Type 0} → List (Exchange A) → List (Event A)
events_in talk = flat_map (λ x. events_of x.order x.replies) talk

abbrev pub replies_in : {A : Type 0} → List (Exchange A) → List Reply
replies_in talk = flat_map (λ x. x.replies) talk

abbrev pub words_in : {A : Type 0} → List (Exchange A) → List ℕ
words_in talk = flat_map (λ x. words_of x.order x.replies) talk

-- a text asks for these orders in turn, and the rest follows
abbrev pub AsksAll : {A : Type 0} → List ℕ → List (Exchange A) → List ℕ → Type 0
AsksAll text [] rest = rest ≡ text
AsksAll text (x ∷ talk) rest = (more : List ℕ) × BeginsWithOrder text x.order more × AsksAll more talk rest

-- the same, if the text is known
abbrev pub Hears : {A : Type 0} → Option (List ℕ) → List (Exchange A) → Option (List ℕ) → Type 0
Hears None talk rest = Unit {0}
Hears (Some text) talk None = ⊥
Hears (Some text) talk (Some rest) = AsksAll text talk rest
