use Rattle.std.proofs.Common.{ℕ, ◌+◌, ◌<◌, List, [], ◌++◌, take, drop, get_or, ◌∙◌, ap}
use Rattle.std.proofs.ByRecursion.{All-get_or}
use Rattle.rv_base.specs.declared.record.Access.{Access}
use Rattle.rv_base.specs.declared.record.Touch.{Touch}
use Rattle.rv_mem.specs.declared.word.Word.{Word}
use Rattle.rv_mem.specs.Accesses.{accesses_of}
use Rattle.rv_mem.specs.StoredCells.{stored_cell}
use Rattle.rv_mem.proofs.LeftLaws.{left-more, still-made, accesses-more}
use Rattle.rv_mem.proofs.leaving.access_all.Goals as goal

no-touch : Touch
no-touch = record { slot = 0; cell = 0; new = 0 }

pub loop-touch-preserved : goal.loop-touch-preserved
unfolding no-touch
loop-touch-preserved c =
    let l = c.loop-touch.invariant in
    let ts : List Touch = c.args.touches.now in
    let i : ℕ = c.loop-touch.touch-index in
    let x : Touch = get_or ts i no-touch in
    let to-access = λ (w : Word). (let a : Access = record { slot = x.slot; cell = x.cell; old = w.value; prev = w.time; new = x.new } in a) in
    let values = λ (k : ℕ). (stored_cell c.args.words.now c.args.registers.now k).value in
    let times = λ (k : ℕ). (stored_cell c.args.words.now c.args.registers.now k).time in
    record {
      image = c.exchange-held.ensures.image ∙ l.image;
      full = c.exchange-held.ensures.full;
      made = still-made c.loop-touch.words c.exchange-held.new.words ts c.exchange-held.ensures.kept l.made;
      left =
          left-more c.args.step ts i no-touch (stored_cell c.args.words.now c.args.registers.now) (stored_cell c.loop-touch.words c.loop-touch.registers)
          (stored_cell c.exchange-held.new.words c.exchange-held.new.registers) c.loop-touch-test.true l.left (c.exchange-held.ensures.set ∙ c.left_by.ensures) c.exchange-held.ensures.others;
      many = c.push.ensures.len ∙ ap (λ n. n + 1) l.many;
      are =
          ap (λ (xs : List Access). xs ++ accesses_of values times c.args.step (take (i + 1) ts) (drop (i + 1) ts)) c.push.ensures.items
          ∙ accesses-more values times c.args.step ts i no-touch c.loop-touch.accesses.items (accesses_of values times c.args.step [] ts) (to-access c.exchange-held.result) c.loop-touch-test.true
          (ap to-access (c.exchange-held.ensures.held ∙ l.left x.cell (All-get_or (λ (t : Touch). t.cell < 1073741857) ts i no-touch c.loop-touch-test.true c.requires.cells))) l.are;
    }
