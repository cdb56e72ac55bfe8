-- For inner contracts only: the numbers that a move goes by, beside the lists of its board, and the network that they stand for.
use Rattle.std.specs.Prelude.{List, [], ℕ}
use Rattle.sets.specs.Sets.{EdgeWord, no_word}
use Rattle.board.specs.declared.Network.{Network}
use Rattle.move_carry.specs.declared.Frame.{Frame}

-- the frame of a network, with the marks, the positive edges, and the terminal at which the search for an open carry goes on
abbrev pub frame_of : Network → EdgeWord → EdgeWord → ℕ → Frame
frame_of net marks positive resume = record {
  vertices = net.vertices;
  edges = net.edges;
  terminals = net.terminals;
  source = net.source;
  marks = marks;
  positive = positive;
  resume = resume;
}

-- the network of a frame and its lists; no move looks at the text's flows and homes
abbrev pub net_of : Frame → List ℕ → List ℕ → List ℕ → Network
net_of frame tails heads demands = record {
  vertices = frame.vertices;
  edges = frame.edges;
  terminals = frame.terminals;
  source = frame.source;
  tails = tails;
  heads = heads;
  flows = [];
  homes = [];
  demands = demands;
}

-- a network without the text's flows and homes
abbrev pub bare_of : Network → Network
bare_of net = net_of (frame_of net no_word no_word 0) net.tails net.heads net.demands
