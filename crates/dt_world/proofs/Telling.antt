-- A reporter does what the world's handler does, until it fails.
use Rattle.std.proofs.Common.{ℕ, ◌≡◌, Bool, false, List, [], ◌∷◌, ◌++◌, length, Result, Ok, refl, sym, ap, subst, ◌∙◌}
use Rattle.dt_reports.specs.Told.{Told}
use Rattle.dt_reports.specs.Entries.{Entry}
use Rattle.dt_flow_model.specs.Frames.{Mark}
use Rattle.dt_world_model.specs.Host.{Host}
use Rattle.dt_world_model.specs.Ledgers.{Ledgers, Occasion, ledgers_after, mark_of}
use Rattle.dt_world_model.specs.Relay.{Parcel, emptied}
use Rattle.dt_world_model.specs.Script.{Answers, Ask, Concludes, Done, Hand, Plays, Script, Tell}
use Rattle.dt_world_model.specs.Station.{Event, Station, station_event}
use Rattle.dt_world_model.specs.World.{Copy, Noted, note_copy, note_told, world_handler}
use Rattle.dt_units.specs.declared.parameters.Params.{Params}
use Rattle.dt_world_laws.proofs.Linking.{event_kept}
use Rattle.dt_world_laws.proofs.Visiting.{Follows, Goes, concludes_keep, concludes_stops, plays_play, stops_at}
use Rattle.dt_world.specs.declared.reporters.Reporter.{Reporter}
use Rattle.dt_world.specs.Steps.{PlayedAll, PlayedPart, Sees, noted_first}
use Rattle.dt_world.specs.Reporters.{Hands, IsUnchanged, Marks, Stays, Tells, TellsAll, copies_of, copy_for, entry_for, ledgers_of, occasion_of}

abbrev pub has_failed : {L : Type 0} → Reporter L → Bool
has_failed s = s.failed

module _ {L : Type 0} (tells : L → Entry → L → Type 0) where
  -- one line more
  pub all_then_one : (es : List Entry) (e : Entry) (u v w : L) → TellsAll tells es u v → tells v e w → TellsAll tells (es ++ e ∷ []) u w
  all_then_one [] e u v w h one = (w, subst (λ (x : L). tells x e w) (sym h) one, refl)
  all_then_one (x ∷ es) e u v w h one = (h.0, h.1, all_then_one es e h.0 v w h.2 one)

  abbrev pub tells_by : Reporter L → Told → Reporter L → Type 0
  tells_by s r t = Tells tells s r t

  abbrev pub marks_by : Reporter L → Host → List ℕ → Mark → Reporter L → Type 0
  marks_by s host octets mark t = Marks s host octets mark t

  abbrev pub hands_by : Reporter L → ℕ → Parcel Mark → Reporter L → Type 0
  hands_by s link parcel t = Hands s link parcel t

  abbrev pub fails_by : Reporter L → Reporter L → Type 0
  fails_by s t = Stays s t

  module _ (first : L) (o : Occasion) where
    abbrev pub sees : Reporter L → Noted → Type 0
    sees s d = Sees tells first o s d

    unchanged_seen : (v w : Reporter L) (d : Noted) → IsUnchanged v w → occasion_of w ≡ occasion_of v → sees v d → sees w d
    unchanged_seen v w d u same now =
        record {
          ledgers = u.ledgers ∙ now.ledgers;
          copies = u.copies ∙ now.copies;
          lines = subst (λ (l : L). TellsAll tells d.lines first l) (sym u.lines) now.lines;
          occasion = same ∙ now.occasion;
        }

    told_line : (v w : Reporter L) (r : Told) (d : Noted) → sees v d → tells v.lines.now (entry_for (occasion_of v) (length (copies_of v)) r) w.lines.now → TellsAll tells (note_told o r d).lines first w.lines.now
    told_line v w r d now line =
        all_then_one d.lines (entry_for o (length d.copies) r) first v.lines.now w.lines.now now.lines
        (subst (λ (cs : List Copy). tells v.lines.now (entry_for o (length cs) r) w.lines.now) now.copies
        (subst (λ (k : Occasion). tells v.lines.now (entry_for k (length (copies_of v)) r) w.lines.now) now.occasion line))

    tell_goes : (v w : Reporter L) (r : Told) (d : Noted) → Tells tells v r w → sees v d → Goes tells_by marks_by hands_by fails_by has_failed sees (world_handler o) v w d (note_told o r d)
    tell_goes v w r d t now =
        record {
          done = λ n.
              let h = t.done n in (
                h.fine,
                record {
                  ledgers = h.ledgers ∙ ap (λ (k : Occasion). ledgers_after k r (ledgers_of v)) now.occasion ∙ ap (λ (l : Ledgers). ledgers_after o r l) now.ledgers;
                  copies = h.copies ∙ now.copies;
                  lines = told_line v w r d now h.line;
                  occasion = t.same.occasion ∙ now.occasion;
                },
              );
          not = λ y. unchanged_seen v w d (t.not y) t.same.occasion now;
        }

    hand_goes : (v w : Reporter L) (link : ℕ) (q : Parcel Mark) (d : Noted) → Hands v link q w → sees v d → Goes tells_by marks_by hands_by fails_by has_failed sees (world_handler o) v w d (note_copy o link q d)
    hand_goes v w link q d h now =
        record {
          done = λ n. (
            h.fine,
            record {
              ledgers = h.ledgers ∙ now.ledgers;
              copies = h.copies ∙ ap (λ (k : Occasion). copies_of v ++ copy_for k link q ∷ []) now.occasion ∙ ap (λ (cs : List Copy). cs ++ copy_for o link q ∷ []) now.copies;
              lines = subst (λ (l : L). TellsAll tells d.lines first l) (sym h.lines) now.lines;
              occasion = h.same.occasion ∙ now.occasion;
            },
          );
          not = λ y. let n = h.still in absurd (cc);
        }

    pub teller_follows : Follows tells_by marks_by hands_by fails_by has_failed sees (world_handler o)
    teller_follows =
        record {
          tell = tell_goes;
          tag = λ v w host octets t d m now. record {
            seen = unchanged_seen v w d m.unchanged m.same.occasion now;
            told = λ n. let h = m.told n in (h.0, h.1 ∙ ap (λ (k : Occasion). mark_of k (ledgers_of v) host octets) now.occasion ∙ ap (λ (l : Ledgers). mark_of o l host octets) now.ledgers);
          };
          hand = hand_goes;
          fail = λ v w d s now. unchanged_seen v w d s.unchanged s.same.occasion now;
        }

module _ {L : Type 0} (tells : L → Entry → L → Type 0) (s : Reporter L) where
  abbrev o : Occasion
  o = occasion_of s

  seen_first : Sees tells s.lines.now o s (noted_first s)
  seen_first = record { ledgers = refl; copies = refl; lines = refl; occasion = refl }

  -- an event that was concluded, by a reporter that then hasn't failed, was played to its end
  pub played_all : (script : Script Mark (Station Mark)) (t : Reporter L) (after : Station Mark) → Concludes (tells_by tells) (marks_by tells) (hands_by tells) (fails_by tells) (let done : Result (Unit {0}) ℕ = Ok tt in done) script s t after → t.failed ≡ false → PlayedAll tells o script (noted_first s) s.lines.now t after
  played_all script t after p fine =
      let k = plays_play (tells_by tells) (marks_by tells) (hands_by tells) (fails_by tells) has_failed (sees tells s.lines.now o) (world_handler o) (teller_follows tells s.lines.now o) script s t after (noted_first s) p seen_first fine in
      record { seen = k.0; station = k.1 }

  -- and however it was concluded, it was played up to some point
  pub played_part : {U E : Type 0} (result : Result U E) (script : Script Mark (Station Mark)) (t : Reporter L) (after : Station Mark) → Concludes (tells_by tells) (marks_by tells) (hands_by tells) (fails_by tells) result script s t after → PlayedPart tells o script (noted_first s) s.lines.now t
  played_part result script t after p =
      let stops = concludes_stops (tells_by tells) (marks_by tells) (hands_by tells) (fails_by tells) has_failed (sees tells s.lines.now o) (world_handler o) (teller_follows tells s.lines.now o) result script s t after p in
      let k = stops_at (tells_by tells) (marks_by tells) (hands_by tells) (fails_by tells) has_failed (sees tells s.lines.now o) (world_handler o) (teller_follows tells s.lines.now o) script s t (noted_first s) stops seen_first in
      record { at = k.0; seen = k.1; on_the_way = k.2 }

  -- what it lends stays the same
  pub notes_kept : {U E : Type 0} (result : Result U E) (script : Script Mark (Station Mark)) (t : Reporter L) (after : Station Mark) → Concludes (tells_by tells) (marks_by tells) (hands_by tells) (fails_by tells) result script s t after → t.notes.ghost_name ≡ s.notes.ghost_name
  notes_kept result script t after p =
      concludes_keep (tells_by tells) (marks_by tells) (hands_by tells) (fails_by tells) (λ (x : Reporter L). x.notes.ghost_name) (λ v w r h. h.same.notes) (λ v w host octets m h. h.same.notes) (λ v w link q h. h.same.notes) (λ v w h. h.same.notes) result script s t after p

  pub lines_kept : {U E : Type 0} (result : Result U E) (script : Script Mark (Station Mark)) (t : Reporter L) (after : Station Mark) → Concludes (tells_by tells) (marks_by tells) (hands_by tells) (fails_by tells) result script s t after → t.lines.ghost_name ≡ s.lines.ghost_name
  lines_kept result script t after p =
      concludes_keep (tells_by tells) (marks_by tells) (hands_by tells) (fails_by tells) (λ (x : Reporter L). x.lines.ghost_name) (λ v w r h. h.same.lines) (λ v w host octets m h. h.same.lines) (λ v w link q h. h.same.lines) (λ v w h. h.same.lines) result script s t after p

-- what holds of every answer of a script holds of the one with which it was played
pub plays_answers : {V T A : Type 0} (tells : V → Told → V → Type 0) (tags : V → Host → List ℕ → T → V → Type 0) (hands : V → ℕ → Parcel T → V → Type 0) (fact : A → Type 0) (script : Script T A) (v w : V) (b : A) → Answers fact script → Plays tells tags hands script v w b → fact b
plays_answers tells tags hands fact (Done a) v w b h p = subst fact p.1 h
plays_answers tells tags hands fact (Tell r s) v w b h p = plays_answers tells tags hands fact s p.0 w b h p.2
plays_answers tells tags hands fact (Ask host octets s) v w b h p = plays_answers tells tags hands fact (s p.1) p.0 w b (h p.1) p.3
plays_answers tells tags hands fact (Hand link q s) v w b h p = plays_answers tells tags hands fact s p.0 w b h p.2

-- so a station that took part in an event has the links and routes that it had
pub links_kept : {L : Type 0} (tells : L → Entry → L → Type 0) (p : Params) (now : ℕ) (e : Event Mark) (station after : Station Mark) (v w : Reporter L) → Plays (tells_by tells) (marks_by tells) (hands_by tells) (station_event p now e station) v w after → emptied after.relay ≡ emptied station.relay
links_kept tells p now e station after v w h = plays_answers (tells_by tells) (marks_by tells) (hands_by tells) (λ (st : Station Mark). emptied st.relay ≡ emptied station.relay) (station_event p now e station) v w after (event_kept (emptied station.relay) p now e station refl) h
