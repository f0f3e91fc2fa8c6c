use Rattle.std.proofs.Common.{◌^◌, [], ◌∷◌}
use Rattle.peer_cop.proofs.WireLines.{no_wire, none_here, small_later, word_later, wire_from}
use Rattle.peer_cop.proofs.WireLines.{from_forms, small, word, last}
use Rattle.peer_cop.proofs.reading.read_wire.Goals as goal

pub returns-in_err-node : goal.returns-in_err-node
returns-in_err-node c =
    rw c.from_residual.ensures (no_wire c.args.text.now
    (none_here (small ∷ word ∷ from_forms) (2 ^ 8) 32 c.args.text.now c.in_err-node.ensures))

pub returns-in_err-drop : goal.returns-in_err-drop
returns-in_err-drop c =
    rw c.from_residual-in_err-drop.ensures (no_wire c.args.text.now
    (small_later c.in_ok-node.ensures
    (none_here (word ∷ from_forms) (2 ^ 8) 32 c.in_ok-node.rest.now c.in_err-drop.ensures)))

pub returns-in_err-word : goal.returns-in_err-word
returns-in_err-word c =
    rw c.from_residual-in_err-word.ensures (no_wire c.args.text.now
    (small_later c.in_ok-node.ensures (small_later c.in_ok-drop.ensures
    (none_here from_forms (2 ^ 16) 32 c.in_ok-drop.rest.now c.in_err-word.ensures))))

pub returns-in_err-from : goal.returns-in_err-from
returns-in_err-from c =
    rw c.from_residual-in_err-from.ensures (no_wire c.args.text.now
    (small_later c.in_ok-node.ensures (small_later c.in_ok-drop.ensures
    (word_later c.in_ok-word.ensures
    (none_here (small ∷ word ∷ last ∷ []) (2 ^ 8) 32 c.in_ok-word.rest.now
    c.in_err-from.ensures)))))

pub returns-in_err-from_drop : goal.returns-in_err-from_drop
returns-in_err-from_drop c =
    rw c.from_residual-in_err-from_drop.ensures (no_wire c.args.text.now
    (small_later c.in_ok-node.ensures (small_later c.in_ok-drop.ensures
    (word_later c.in_ok-word.ensures (small_later c.in_ok-from.ensures
    (none_here (word ∷ last ∷ []) (2 ^ 8) 32 c.in_ok-from.rest.now
    c.in_err-from_drop.ensures))))))

pub returns-in_err-from_word : goal.returns-in_err-from_word
returns-in_err-from_word c =
    rw c.from_residual-in_err-from_word.ensures (no_wire c.args.text.now
    (small_later c.in_ok-node.ensures (small_later c.in_ok-drop.ensures
    (word_later c.in_ok-word.ensures (small_later c.in_ok-from.ensures
    (small_later c.in_ok-from_drop.ensures
    (none_here (last ∷ []) (2 ^ 16) 32 c.in_ok-from_drop.rest.now
    c.in_err-from_word.ensures)))))))

pub returns-in_err-count : goal.returns-in_err-count
returns-in_err-count c =
    rw c.from_residual-in_err-count.ensures (no_wire c.args.text.now
    (small_later c.in_ok-node.ensures (small_later c.in_ok-drop.ensures
    (word_later c.in_ok-word.ensures (small_later c.in_ok-from.ensures
    (small_later c.in_ok-from_drop.ensures (word_later c.in_ok-from_word.ensures
    (none_here [] (2 ^ 16) 10 c.in_ok-from_word.rest.now c.in_err-count.ensures))))))))

pub returns : goal.returns
returns c =
    wire_from (record {
      node = c.in_ok-node.node;
      drop = c.in_ok-drop.drop;
      word = c.in_ok-word.word;
      from = c.in_ok-from.from;
      from_drop = c.in_ok-from_drop.from_drop;
      from_word = c.in_ok-from_word.from_word;
      count = c.in_ok-count.count;
    }) c.args.text.now c.in_ok-node.rest.now c.in_ok-drop.rest.now c.in_ok-word.rest.now
    c.in_ok-from.rest.now c.in_ok-from_drop.rest.now c.in_ok-from_word.rest.now
    c.in_ok-count.rest.now c.in_ok-node.ensures c.in_ok-drop.ensures c.in_ok-word.ensures
    c.in_ok-from.ensures c.in_ok-from_drop.ensures c.in_ok-from_word.ensures c.in_ok-count.ensures
