-- The board that the code makes of a memory: its stage and its network are what two functions ensure.
use mathlib.Core.Path.{◌≡◌}
use mathlib.Core.List.{List, []}
use Prim.Native.Nat.{ℕ}
use lib.ListN.{get_or}
use Rattle.sets.specs.Sets.{EdgeWord}
use Rattle.board.specs.declared.Network.{Network}
use Rattle.journal.specs.Words.{whole_of}
use Rattle.boundary_parts.specs.Memory.{stage_read, network_in}
use Rattle.boundary_parts.specs.Inner.{IsBoardOf}

pub stands-for :
    (numbers : List ℕ) (edges terminals : List (List ℕ)) (marks : EdgeWord) (stage : ℕ) (network : Network)
    → stage ≡ stage_read (get_or numbers 0 0) (get_or numbers 1 0)
    → network ≡ network_in numbers edges terminals
    → IsBoardOf (record {
      stage = stage;
      network = network;
      acyclic = get_or edges 3 [];
      flows = get_or edges 4 [];
      marks = marks;
      places = get_or terminals 2 [];
      moves = get_or numbers 6 0;
      finish_from = get_or numbers 7 0;
    }) numbers edges terminals marks
stands-for numbers edges terminals marks stage network hs hn words =
    λ i. whole_of (record {
      stage = hs i;
      network = hn i;
      acyclic = get_or edges 3 [];
      flows = get_or edges 4 [];
      marks = marks;
      places = get_or terminals 2 [];
      moves = get_or numbers 6 0;
      finish_from = get_or numbers 7 0;
    }) words
