-- What a load gives, by the reader's answer: the answer itself; after a refusal the closed board; after a 0 the board of the network that was read,
-- which is lawful.
use mathlib.Core.Path.{◌≡◌, sym, ap, ◌∙◌}
use mathlib.Core.List.{List}
use Prim.Native.Nat.{ℕ, ◌≤◌}
use lib.Dec.{eqb}
use borrow.Author.Tests.{eqb-true, eqb-false, eq-eqb, ne_eqb}
use Rattle.lists.specs.Choice.{pick}
use Rattle.lists.proofs.Laws.{Known, was_true, was_false, known, pick_yes, pick_no}
use Rattle.board.specs.Limits.{max_vertices}
use Rattle.board.specs.Record.{closed_board}
use Rattle.board.specs.Whole.{Board}
use Rattle.board.specs.declared.Network.{Network}
use Rattle.text_rules.specs.Rules.{Lawful}
use Rattle.text.specs.Results.{Reading}
use Rattle.text.specs.Text.{text_of}
use Rattle.text.specs.Results.{read_text}
use Rattle.text.proofs.Accepted.{accepted_as, accepted_text, accepts}
use Rattle.load.specs.Load.{Loaded}
use Rattle.load.specs.Load.{acyclic_of, opened, load_text}

-- a reading that answered 0 is an accepted one
pub read_accepted : (s : List ℕ) → (read_text s).answer ≡ 0 → read_text s ≡ accepted_as (read_text s).network
read_accepted s h = λ t. record { answer = h t; network = (read_text s).network }

pub read_lawful : (s : List ℕ) → (read_text s).answer ≡ 0 → Lawful (read_text s).network
read_lawful s h = (accepted_text s (read_text s).network (read_accepted s h)).1

module _ (s : List ℕ) (t : Reading) (read : t ≡ read_text s) where
  pub bounded : t.answer ≡ 0 → t.network.vertices ≤ max_vertices
  bounded h = rw read (read_lawful s (rw read at h)).within.vertices.1

  pub refused_load : (b : Board) → (t.answer ≡ 0 → ⊥) → b ≡ closed_board → record { answer = t.answer; board = b } ≡ load_text s
  unfolding load_text pick
  refused_load b h e = rw (← read, e, ne_eqb t.answer 0 h)

  pub accepted_load : (flows : List ℕ) (b : Board) → t.answer ≡ 0 → flows ≡ acyclic_of t.network → b ≡ opened t.network flows
      → record { answer = 0; board = b } ≡ load_text s
  unfolding load_text pick
  accepted_load flows b h f e = rw (← read, e, f, eq-eqb t.answer 0 h)

module _ (s : List ℕ) where
  accepted_as_lem : (read_text s).answer ≡ 0 → load_text s ≡ record { answer = 0; board = opened (read_text s).network (acyclic_of (read_text s).network) }
  unfolding load_text
  accepted_as_lem h = pick_yes _ _ _ (eq-eqb _ _ h)

  refused_as : ((read_text s).answer ≡ 0 → ⊥) → load_text s ≡ record { answer = (read_text s).answer; board = closed_board }
  unfolding load_text
  refused_as h = pick_no _ _ _ (ne_eqb _ _ h)

  -- the answer is the reader's: a load accepts exactly what the reader accepts
  pub load_answer : (load_text s).answer ≡ (read_text s).answer
  load_answer = go (known (eqb (read_text s).answer 0))
    where
      go : Known (eqb (read_text s).answer 0) → (load_text s).answer ≡ (read_text s).answer
      go (was_true t) = let e = eqb-true _ _ t in ap (λ (l : Loaded). l.answer) (accepted_as_lem e) ∙ sym e
      go (was_false t) = ap (λ (l : Loaded). l.answer) (refused_as (eqb-false _ _ t))

  pub load_refused : ((load_text s).answer ≡ 0 → ⊥) → (load_text s).board ≡ closed_board
  load_refused h = ap (λ (l : Loaded). l.board) (refused_as (λ e. h (load_answer ∙ e)))

  module _ (h : (load_text s).answer ≡ 0) where
    pub load_accepted : (load_text s).board ≡ opened (read_text s).network (acyclic_of (read_text s).network)
    load_accepted = ap (λ (l : Loaded). l.board) (accepted_as_lem (sym load_answer ∙ h))

    pub loaded_reading : read_text s ≡ accepted_as (load_text s).board.network
    loaded_reading = rw load_accepted (read_accepted s (sym load_answer ∙ h))

    pub loaded-lawful : Lawful (read_text s).network
    loaded-lawful = read_lawful s (sym load_answer ∙ h)

-- the text of a lawful network gives the board of that network
pub load_text_lem : (net : Network) → Lawful net → load_text (text_of net) ≡ record { answer = 0; board = opened net (acyclic_of net) }
load_text_lem net law =
    let read = accepts net law in
    let same : (read_text (text_of net)).network ≡ net = ap (λ (r : Reading). r.network) read in
    let given = accepted_as_lem (text_of net) (ap (λ (r : Reading). r.answer) read) in
    rw same at given
