-- Each kind of step is its event, and the steps keep the rule with the history.
use Rattle.std.proofs.Common.{◌≡◌, ℕ, zero, suc, ◌+◌, ◌-◌, ◌%◌, ◌^◌, ◌<◌, ◌≤◌, false, List, [], ◌∷◌, ◌++◌, replicate, get_or, set, sym, refl, ap, ◌∙◌, subst, arith}
use Rattle.std.proofs.lemmas.Bool.{true≢false}
use Rattle.std.specs.Prelude.{IsTrue, Option, Some, None}
use mathlib.Core.Option.{Option as Found, some, none, some-injective, some-ne-none}
use Rattle.std.proofs.lemmas.List.{append-nil, append_assoc, length-replicate}
use lib.ListN.{get_elem?}
use Rattle.atomic_table.specs.Table.{Allows, Splits as AllowsSplit, Joins as AllowsJoin, stepped, step, homes_after, opening}
use Rattle.atomic_table.proofs.Lists.{set_here, set_else}
use Rattle.rv_book.specs.declared.event.BoardEvent.{BoardEvent}
use Rattle.rv_book.specs.declared.event.BoardEvent.TheVariants.{Claim, Deposit as Deposits}
use Rattle.rv_book.specs.declared.task.Piece.{Piece}
use Rattle.rv_book.specs.Board.{Leads, initial_board, permitted, board_after, drawn_by}
use Rattle.rv_book.proofs.Lemmas.{leads-more}
use Rattle.rv_claim.specs.declared.view.Deposit.{Deposit}
use Rattle.rv_claim.specs.declared.view.Lists.{Lists}
use Rattle.rv_claim.specs.declared.view.View.{View}
use Rattle.rv_claim.specs.Views.{kept, fresh, pass_view, home_view, spent_view, draws, opens, fills, is_past, drew, put, numbered, total}
use Rattle.rv_claim.specs.History.{TableState, SeatState, EachPass, Shows, BeginsWithSeen, History, Kept, Happens}
use Rattle.rv_claim.specs.Kinds.{IsDraw}
use Rattle.rv_claim.specs.Events.{StepsAreEvents}
use Rattle.rv_claim.proofs.Alone.{once, own-entries}
use Rattle.rv_claim.proofs.Homes.{at-below, splits, joins, begins, no-words}
use Rattle.rv_claim.proofs.Shown.{claim-permitted, claim-shown, deposit-permitted, fill-shown, open-shown, split-shown, join-shown, each-from, each-stepped, each-made, each-joined}
use Rattle.rv_claim.proofs.Steps.{unmoved, claims, opens-slot, fills-slot}

-- the law
pub each-kind : StepsAreEvents
each-kind piece n w s t r = record {
  claims = λ seat l new add b shown.
      let es : List BoardEvent = add.told.1.0 in
      let x : ℕ = get_or s.words 0 0 in
      let view : add.view ≡ pass_view (draws l x es) = ap (λ (m : SeatState). m.0) add.told.1.1 in (
        claim-permitted piece n w s r b shown seat l add.at new,
        subst (λ u. Shows w u (board_after b (Claim l.number))) (sym (add.after ∙ ap (λ (v : View). stepped s 0 ((x + 1) % 2 ^ 64) seat [] v add.act) view))
            (claim-shown piece n w s r b shown seat l add.at (homes_after s.homes [] add.act) es new),
      );
  opens = λ seat i l idle add b shown.
      let e : suc i - 1 ≡ i = omega arith in
      let v : ℕ = (get_or s.words (suc i) 0 + 1) % 2 ^ 64 in
      let view : add.view ≡ pass_view (opens l i) = ap (λ (m : SeatState). m.0) add.told.1 ∙ ap (λ k. pass_view (opens l k)) e in
      subst (λ u. Shows w u b) (sym (add.after ∙ ap (λ (y : View). stepped s (suc i) v seat [] y add.act) view))
      (open-shown piece n w s r b shown seat l add.at i v (homes_after s.homes [] add.act));
  fills = λ seat i l held pending lt add b shown.
      let e : suc i - 1 ≡ i = omega arith in
      let es : List BoardEvent = add.told.1.0 in
      let v : ℕ = (get_or s.words (suc i) 0 + 1) % 2 ^ 64 in
      let view : add.view ≡ pass_view (fills l i es) = ap (λ (m : SeatState). m.0) add.told.1.1 ∙ ap (λ k. pass_view (fills l k es)) e in (
        deposit-permitted piece n w s r b shown seat l add.at i pending lt,
        subst (λ u. Shows w u (board_after b (Deposits l.number i))) (sym (add.after ∙ ap (λ (y : View). stepped s (suc i) v seat ((i, held) ∷ []) y add.act) view))
            (fill-shown piece n w s r b shown seat l add.at i pending v (homes_after s.homes ((i, held) ∷ []) add.act) es),
      );
  splits = λ made ls room cut b shown. subst (λ u. Shows w u b) (sym cut.after) (split-shown piece n w s r b shown made ls cut.at room);
  joins = λ made other ls l joined b shown. subst (λ u. Shows w u b) (sym joined.after) (join-shown piece n w s r b shown made ls joined.at other l joined.apart joined.there);
}

longer : (es front : List BoardEvent) (e : BoardEvent) → (later : List BoardEvent) × (es ≡ front ++ later) → (later : List BoardEvent) × (es ++ e ∷ [] ≡ front ++ later)
longer es front e begins = (begins.0 ++ e ∷ [], ap (λ xs. xs ++ e ∷ []) begins.1 ∙ append_assoc front begins.0 (e ∷ []))

module _ (piece : ℕ → Piece) (n w : ℕ) where
  -- a step that is an event makes the history longer by it
  module _ (s : TableState) (k : Kept piece n w s) (id : ℕ) (l m : Lists) (e : BoardEvent) (at : get_elem? s.views id ≡ some (pass_view l)) (same : l.number ≡ m.number)
      (now : m.seen ≡ k.history.events ++ e ∷ []) (ok : IsTrue (permitted n k.history.board e)) (ws : List ℕ) (hs : List (Found (Option Deposit)))
      (shown : Shows w record { words = ws; homes = hs; views = set s.views id (pass_view m) } (board_after k.history.board e)) where
    pub history-more : History n w record { words = ws; homes = hs; views = set s.views id (pass_view m) }
    history-more = record {
      events = k.history.events ++ e ∷ [];
      board = board_after k.history.board e;
      reached = (k.history.reached.0, leads-more n (initial_board w) k.history.board k.history.events e k.history.reached.1 ok);
      shows = shown;
      seen = each-stepped (BeginsWithSeen (k.history.events ++ e ∷ [])) s.views id m ([], sym (append-nil m.seen ∙ now))
          (λ seat v apart there. each-from (BeginsWithSeen k.history.events) (BeginsWithSeen (k.history.events ++ e ∷ [])) v (λ g begins. longer k.history.events g.seen e begins) (k.history.seen seat v there));
    }

    pub happens : (slots : ℕ) → n ≡ slots → Happens slots l e m
    happens slots sized =
        let begins = (k.history.seen id (pass_view l) at).0 refl in
        let vs : List View = set s.views id (pass_view m) in
        let here : get_elem? vs id ≡ some (pass_view m) = set_here s.views id (pass_view m) (at-below s.views id (pass_view l) at) in
        let count : total (numbered m.number) vs ≡ total (numbered m.number) s.views = unmoved s.views id l m at (numbered m.number) (ap (λ (j : ℕ). numbered m.number (record m { number = j })) same) in
        let only : total (numbered m.number) vs ≤ 1 = omega (arith, count, once w m.number s.views k.ruled.numbers) in
        subst (λ j. Happens j l e m) sized (record {
          between = begins.0;
          seen = now ∙ ap (λ es. es ++ e ∷ []) begins.1;
          passes = w;
          board = board_after k.history.board e;
          reached = (k.history.reached.0, subst (λ (es : List BoardEvent). Leads n (initial_board w) es (board_after k.history.board e)) (sym now) (leads-more n (initial_board w) k.history.board k.history.events e k.history.reached.1 ok));
          drawn = (shown.drawn id (pass_view m) here).0 refl;
          entered = λ i. shown.journal m.number i ∙ own-entries vs id m here only i;
        })

  pub kept-claims : (slots id : ℕ) (l : Lists) → is_past n l.drawn ≡ false
      → Allows (Kept piece n w) slots id (pass_view l, []) 0 (λ k. (k + 1) % 2 ^ 64) (IsDraw (step slots 0 1 0 none) (pass_view l, []))
  kept-claims slots id l new s k long at lt =
      let e : BoardEvent = Claim l.number in
      let x : ℕ = get_or s.words 0 0 in
      let es : List BoardEvent = k.history.events ++ e ∷ [] in
      let m : Lists = draws l x es in
      let t = claims piece n w slots id l es new s k.ruled long at lt in
      let view : t.0 ≡ pass_view m = ap (λ (z : SeatState). z.0) t.4.1 in
      let ok = claim-permitted piece n w s k.ruled k.history.board k.history.shows id l at new in
      let ws : List ℕ = set s.words 0 ((x + 1) % 2 ^ 64) in
      let hs = homes_after s.homes [] t.1 in
      let shown = claim-shown piece n w s k.ruled k.history.board k.history.shows id l at hs es new in (
        t.0,
        t.1,
        t.2,
        record {
          ruled = t.3;
          history = subst (λ (v : View). History n w (stepped s 0 ((x + 1) % 2 ^ 64) id [] v t.1)) (sym view) (history-more s k id l m e at refl refl ok ws hs shown);
        },
        (t.4.0, (es, t.4.1, happens s k id l m e at refl refl ok ws hs shown slots (sym k.ruled.sized.1 ∙ long))),
      )

  pub kept-opens : (slots id : ℕ) (l : Lists) (i : ℕ) → l.pending ≡ None → 0 < drew i l → put i l ≡ 0 → i < n
      → Allows (Kept piece n w) slots id (pass_view l, []) (suc i) (λ k. (k + 1) % 2 ^ 64) (λ found me. (found ≡ 0) × (me ≡ (pass_view (opens l i), (i, None) ∷ [])))
  kept-opens slots id l i idle has new lt s k long at bound =
      let h = k.history in
      let t = opens-slot piece n w slots id l i idle has new lt s k.ruled long at bound in
      let v : ℕ = (get_or s.words (suc i) 0 + 1) % 2 ^ 64 in
      let view : t.0 ≡ pass_view (opens l i) = ap (λ (z : SeatState). z.0) t.4.1 in (
        t.0,
        t.1,
        t.2,
        record {
          ruled = t.3;
          history = subst (λ (y : View). History n w (stepped s (suc i) v id [] y t.1)) (sym view) (record {
            events = h.events;
            board = h.board;
            reached = h.reached;
            shows = open-shown piece n w s k.ruled h.board h.shows id l at i v (homes_after s.homes [] t.1);
            seen = each-stepped (BeginsWithSeen h.events) s.views id (opens l i) ((h.seen id (pass_view l) at).0 refl) (λ seat y apart there. h.seen seat y there);
          });
        },
        t.4,
      )

  pub kept-fills : (slots id : ℕ) (l : Lists) (i : ℕ) → l.pending ≡ Some i → i < n
      → Allows (Kept piece n w) slots id (pass_view l, (i, Some (kept l.number (piece i))) ∷ []) (suc i) (λ k. (k + 1) % 2 ^ 64)
      (λ found me. (found ≡ 1) × ((es : List BoardEvent) × (me ≡ (pass_view (fills l i es), [])) × Happens slots l (Deposits l.number i) (fills l i es)))
  kept-fills slots id l i pending lt s k long at bound =
      let e : BoardEvent = Deposits l.number i in
      let es : List BoardEvent = k.history.events ++ e ∷ [] in
      let m : Lists = fills l i es in
      let t = fills-slot piece n w slots id l i es pending lt s k.ruled long at bound in
      let v : ℕ = (get_or s.words (suc i) 0 + 1) % 2 ^ 64 in
      let carried : List (ℕ × Option Deposit) = (i, Some (kept l.number (piece i))) ∷ [] in
      let view : t.0 ≡ pass_view m = ap (λ (z : SeatState). z.0) t.4.1 in
      let ok = deposit-permitted piece n w s k.ruled k.history.board k.history.shows id l at i pending lt in
      let ws : List ℕ = set s.words (suc i) v in
      let hs = homes_after s.homes carried t.1 in
      let shown = fill-shown piece n w s k.ruled k.history.board k.history.shows id l at i pending v hs es in (
        t.0,
        t.1,
        t.2,
        record {
          ruled = t.3;
          history = subst (λ (y : View). History n w (stepped s (suc i) v id carried y t.1)) (sym view) (history-more s k id l m e at refl refl ok ws hs shown);
        },
        (t.4.0, (es, t.4.1, happens s k id l m e at refl refl ok ws hs shown slots (sym k.ruled.sized.1 ∙ long))),
      )

  pub kept-splits : (made : ℕ) (ls : List Lists) → made < w → AllowsSplit (Kept piece n w) 0 (home_view made ls) (home_view (made + 1) ls) (pass_view (fresh made))
  kept-splits made ls room s k at =
      let h = k.history in
      record {
        ruled = splits piece n w made ls room s k.ruled at;
        history = record {
          events = h.events;
          board = h.board;
          reached = h.reached;
          shows = split-shown piece n w s k.ruled h.board h.shows made ls at room;
          seen = each-made (BeginsWithSeen h.events) s.views made ls at (h.events, refl) h.seen;
        };
      }

  pub kept-joins : (made : ℕ) (ls : List Lists) (other : ℕ) (l : Lists) → l.pending ≡ None
      → AllowsJoin (Kept piece n w) 0 (home_view made ls) other (pass_view l) (home_view made (ls ++ l ∷ [])) spent_view
  kept-joins made ls other l idle s k at apart there =
      let h = k.history in
      let theirs : get_elem? s.views other ≡ some (pass_view l) = sym (set_else s.views 0 other (home_view made (ls ++ l ∷ [])) apart) ∙ there in
      record {
        ruled = joins piece n w made ls other l idle s k.ruled at apart there;
        history = record {
          events = h.events;
          board = h.board;
          reached = h.reached;
          shows = join-shown piece n w s k.ruled h.board h.shows made ls at other l apart theirs;
          seen = each-joined (BeginsWithSeen h.events) s.views made ls other l at theirs h.seen;
        };
      }

  none-drawn : (passes p : ℕ) → drawn_by (replicate passes []) p ≡ []
  none-drawn zero p = refl
  none-drawn (suc passes) zero = refl
  none-drawn (suc passes) (suc p) = none-drawn passes p

  first-view : (P : Lists → Type 0) (seat : ℕ) (v : View) → get_elem? (home_view 0 [] ∷ []) seat ≡ some v → EachPass P v
  first-view P zero v there = subst (EachPass P) (some-injective (home_view 0 []) v there) ((λ live. absurd (true≢false (sym live))), λ k m none_there. absurd (some-ne-none m (sym none_there)))
  first-view P (suc seat) v there = absurd (some-ne-none v (sym there))

  pub kept-begins : n ≤ 65536 → w ≤ 64 → 1 ≤ w → Kept piece n w (opening (replicate (n + 1) 0) (replicate n None) (home_view 0 []))
  kept-begins few_n few_w some_pass = record {
    ruled = begins piece n w few_n few_w;
    history = record {
      events = [];
      board = initial_board w;
      reached = (some_pass, refl);
      shows = record {
        next = sym (no-words piece n w (n + 1) 0);
        passes = length-replicate w [];
        drawn = first-view _;
        unmade = λ p _. none-drawn w p;
        journal = λ p i. refl;
      };
      seen = first-view _;
    };
  }
